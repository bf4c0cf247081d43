-- SPDX-License-Identifier: Apache-2.0 OR MIT
-- ---- the small conference with its twins, and what each reader sees of it
pub mod Conference
pub mod ConferenceViews
pub mod ConferenceOutcomes
pub mod ConferenceResponse
pub mod ConferenceLaws
-- ---- what is tried on it: which rule is told, and what is hidden
pub mod FirstTold
pub mod HiddenPairs
