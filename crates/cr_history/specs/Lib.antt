-- SPDX-License-Identifier: Apache-2.0 OR MIT
pub mod Groups
pub mod Invariants
pub mod Laws
pub mod Records
