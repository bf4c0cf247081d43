-- SPDX-License-Identifier: Apache-2.0 OR MIT
pub mod Chain
pub mod Ready
pub mod Calendar
