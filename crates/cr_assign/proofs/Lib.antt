-- SPDX-License-Identifier: Apache-2.0 OR MIT
pub mod EarlierLaws
pub mod IndexLaws
pub mod LeftLaws
pub mod ReviewedLaws
