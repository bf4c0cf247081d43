-- SPDX-License-Identifier: Apache-2.0 OR MIT
pub mod Asked
pub mod Found
pub mod Spelled
