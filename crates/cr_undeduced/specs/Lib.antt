-- SPDX-License-Identifier: Apache-2.0 OR MIT
pub mod Payload
pub mod OtherStamps
pub mod Undeducible
pub mod MayHaveBeen
pub mod HowOneCame
pub mod Deducible
pub mod Makers
pub mod Twins
