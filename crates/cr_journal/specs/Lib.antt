-- SPDX-License-Identifier: Apache-2.0 OR MIT
pub mod Grammar
pub mod Reading
pub mod Gates
pub mod Standing
pub mod Keeping
pub mod Stored
pub mod Shelving
