-- SPDX-License-Identifier: Apache-2.0 OR MIT
pub mod AskedAlike
pub mod HiddenBytes
pub mod GroupRuns
pub mod AnotherRun
pub mod RunsEndSo
pub mod UndeducibleBytes
pub mod TwinsBytes
pub mod TwinsNeeded
pub mod PlanPosted
pub mod ResponseBytes
pub mod SearchesSpelt
