-- SPDX-License-Identifier: Apache-2.0 OR MIT
pub mod Fuel
pub mod PlainRows
pub mod ReadLaws
pub mod RowLaws
