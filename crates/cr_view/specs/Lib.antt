-- SPDX-License-Identifier: Apache-2.0 OR MIT
pub mod Accepted
pub mod Callers
pub mod Comments
pub mod Fields
pub mod PaperSeen
pub mod Plans
pub mod Replies
pub mod Responses
pub mod Reports
pub mod Reviews
pub mod Room
pub mod Seen
