-- SPDX-License-Identifier: Apache-2.0 OR MIT
pub mod IndexLaws
pub mod Passing
