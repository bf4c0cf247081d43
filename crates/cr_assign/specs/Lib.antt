-- SPDX-License-Identifier: Apache-2.0 OR MIT
pub mod Index
pub mod Room
pub mod Seen
pub mod Targets
