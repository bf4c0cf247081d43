-- SPDX-License-Identifier: Apache-2.0 OR MIT
pub mod Earlier
pub mod Opening
pub mod Reading
pub mod BulkRows
pub mod Seen
pub mod Sound
pub mod Stopping
pub mod Kinds
