-- SPDX-License-Identifier: Apache-2.0 OR MIT
pub mod HeadRange
pub mod Search
pub mod Buffer
pub mod Body
pub mod Filling
pub mod BodyFill
pub mod Head
pub mod Values
pub mod Found
pub mod ToHead
pub mod Requests
pub mod Extent
pub mod Reading
