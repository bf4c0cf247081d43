-- SPDX-License-Identifier: Apache-2.0 OR MIT
pub mod Offsets
pub mod Windows
pub mod Searching
pub mod Moving
pub mod Blocks
pub mod Bodies
pub mod Founds
pub mod Fields
pub mod Unique
pub mod Judging
pub mod HeadsRead
pub mod Answering
