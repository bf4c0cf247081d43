-- SPDX-License-Identifier: Apache-2.0 OR MIT
pub mod Counts
pub mod Turns
pub mod PassStates
pub mod Passes
pub mod Closing
pub mod Rule
pub mod Steps
