-- SPDX-License-Identifier: Apache-2.0 OR MIT
pub mod ConferenceProofs
pub mod ConferenceSeen
pub mod ConferenceVerdicts
pub mod FirstToldLaws
pub mod HiddenPairLaws
pub mod HiddenPairProofs
