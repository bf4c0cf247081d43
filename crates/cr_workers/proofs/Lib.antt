-- SPDX-License-Identifier: Apache-2.0 OR MIT
pub mod Lists
pub mod Grown
pub mod Connections
pub mod Halves
pub mod Serving
pub mod Closed
