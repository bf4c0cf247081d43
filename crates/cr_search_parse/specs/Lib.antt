-- SPDX-License-Identifier: Apache-2.0 OR MIT
pub mod Cutting
pub mod Grammar
pub mod Laws
pub mod Outcome
pub mod Offsets
pub mod Reading
pub mod Runs
pub mod Standing
pub mod Stopping
pub mod Terms
