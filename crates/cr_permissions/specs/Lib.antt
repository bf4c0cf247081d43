-- SPDX-License-Identifier: Apache-2.0 OR MIT
-- ---- who may do and read what, as a committee says it
pub mod MayDo
pub mod MayRead
pub mod MayBulk
pub mod PlansTaken
-- ---- what follows
pub mod SingleRows
pub mod GoesOn
pub mod PhaseOrder
pub mod Migration
