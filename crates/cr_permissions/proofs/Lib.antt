-- SPDX-License-Identifier: Apache-2.0 OR MIT
pub mod GoesOnLaws
pub mod KeptStamps
pub mod MayBulkLaws
pub mod MayDoLaws
pub mod MayReadLaws
pub mod MigrationLaws
pub mod PhaseOrderLaws
pub mod PlanRows
pub mod PlanTakenLaws
pub mod SentenceLaws
pub mod SingleRowLaws
