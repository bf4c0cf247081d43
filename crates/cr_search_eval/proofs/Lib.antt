-- SPDX-License-Identifier: Apache-2.0 OR MIT
pub mod EvaluateLaws
pub mod FoundLaws
pub mod TermLaws
pub mod TextLaws
