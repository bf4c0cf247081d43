-- SPDX-License-Identifier: Apache-2.0 OR MIT
pub mod Complete
pub mod FollowLaws
pub mod ParseLaws
pub mod OffsetLaws
pub mod ReaderLaws
pub mod ReadingLaws
pub mod RunLaws
pub mod Sound
pub mod StopLaws
pub mod TermLaws
pub mod TreeLaws
