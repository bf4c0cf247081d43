-- SPDX-License-Identifier: Apache-2.0 OR MIT
-- ---- definitions: what an entry shows whom, what follows from a view, and which histories are legal
pub mod Part
pub mod Sighting
pub mod Triggers
pub mod View
pub mod ViewFacts
pub mod ViewRetries
pub mod Judge
pub mod Legal
-- ---- what a command adds, said a second time, as a committee says it, and the words for that
pub mod Sentences
pub mod Added
-- ---- laws
pub mod Laws
pub mod HiddenPayload
-- ---- examples: the witness
pub mod Witness
pub mod WitnessLaws
