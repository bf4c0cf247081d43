-- SPDX-License-Identifier: Apache-2.0 OR MIT
pub mod Rows
pub mod Plan
pub mod Search
pub mod Draft
pub mod Board
pub mod Tight
pub mod Raise
pub mod Answer
pub mod Settle
pub mod Setup
pub mod Tell
pub mod Solve
