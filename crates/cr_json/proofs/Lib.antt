-- SPDX-License-Identifier: Apache-2.0 OR MIT
pub mod Lists
pub mod Objects
pub mod Plain
pub mod Calendar
