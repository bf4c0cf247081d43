-- SPDX-License-Identifier: Apache-2.0 OR MIT
pub mod Prints
pub mod Status
pub mod Dates
pub mod Head
pub mod Refused
pub mod Receipt
pub mod Conference
pub mod Found
pub mod Page
pub mod Me
pub mod Response
pub mod Answers
