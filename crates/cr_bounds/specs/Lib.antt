-- SPDX-License-Identifier: Apache-2.0 OR MIT
-- ---- who is shown what of an entry, said a second time, as a committee says it
pub mod ShownTo
-- ---- bounds of views
pub mod ViewBounds
pub mod ResponseBounds
