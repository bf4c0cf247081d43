-- SPDX-License-Identifier: Apache-2.0 OR MIT
pub mod Secret
pub mod Mark
pub mod Field
pub mod Until
pub mod Json
pub mod Bodies
pub mod Credentials
pub mod Outcome
