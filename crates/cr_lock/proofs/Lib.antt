-- SPDX-License-Identifier: Apache-2.0 OR MIT
pub mod Sums
pub mod Prefixes
pub mod Order
pub mod Reaching
pub mod Changes
pub mod Turns
pub mod Seats
