-- SPDX-License-Identifier: Apache-2.0 OR MIT
pub mod AcceptedLaws
pub mod AnswerLaws
pub mod AskingLaws
pub mod CommentLaws
pub mod ContentLaws
pub mod FieldLaws
pub mod JudgeLaws
pub mod MeLaws
pub mod NobodyLaws
pub mod PageLaws
pub mod ReportLaws
pub mod ResponseLaws
pub mod PlanLaws
pub mod ReviewLaws
pub mod ReviewingLaws
pub mod RoomLaws
pub mod StepLaws
