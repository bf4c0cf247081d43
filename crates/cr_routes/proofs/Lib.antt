-- SPDX-License-Identifier: Apache-2.0 OR MIT
pub mod Adding
pub mod Rows
pub mod Taking
pub mod Spelling
pub mod Walked
pub mod Shares
pub mod Resources
pub mod AskedAt
