-- SPDX-License-Identifier: Apache-2.0 OR MIT
pub mod Connection
pub mod Outcome
pub mod Paper
pub mod Target
pub mod Number
pub mod Query
pub mod Asked
pub mod Bounds
pub mod Caller
pub mod Wish
pub mod Wishes
