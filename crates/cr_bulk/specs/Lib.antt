-- SPDX-License-Identifier: Apache-2.0 OR MIT
pub mod Actions
pub mod Reading
pub mod Rows
