-- SPDX-License-Identifier: Apache-2.0 OR MIT
pub mod Put
pub mod Json
pub mod Accounts
pub mod Accepted
pub mod Reviewers
pub mod Reviews
pub mod Comments
pub mod Found
pub mod Times
pub mod Deadlines
