-- SPDX-License-Identifier: Apache-2.0 OR MIT
pub mod Disk
pub mod Past
pub mod Held
pub mod Paths
pub mod Plain
