-- SPDX-License-Identifier: Apache-2.0 OR MIT
pub mod Methods
pub mod Asks
pub mod Paths
pub mod Parts
pub mod Rows
