-- SPDX-License-Identifier: Apache-2.0 OR MIT
pub mod AskingLaws
pub mod BookLaws
pub mod DueLaws
pub mod EarlierLaws
pub mod FollowLaws
pub mod JudgingLaws
pub mod OpeningLaws
pub mod OpeningOnward
pub mod OutcomeLaws
pub mod ViewLaws
pub mod StopLaws
pub mod StoreLaws
