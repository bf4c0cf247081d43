-- SPDX-License-Identifier: Apache-2.0 OR MIT
pub mod AssigningLaws
mod CoauthorLaws
pub mod CommandLaws
pub mod GroupLaws
pub mod JudgedLaws
pub mod NamedLaws
pub mod RowEntryLaws
pub mod RowLaws
pub mod TargetLaws
pub mod WritingLaws
