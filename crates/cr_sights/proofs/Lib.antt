-- SPDX-License-Identifier: Apache-2.0 OR MIT
pub mod Around
pub mod SeriesLaws
pub mod MemberLaws
pub mod PlaceLaws
pub mod PositionLaws
pub mod Shown
pub mod WalkLaws
