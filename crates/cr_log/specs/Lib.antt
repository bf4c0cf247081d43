-- SPDX-License-Identifier: Apache-2.0 OR MIT
pub mod Given
pub mod Index
pub mod Room
pub mod Seen
