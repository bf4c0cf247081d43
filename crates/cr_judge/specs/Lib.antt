-- SPDX-License-Identifier: Apache-2.0 OR MIT
pub mod Callers
pub mod Effects
pub mod Named
pub mod Rows
pub mod Targets
