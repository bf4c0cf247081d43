-- SPDX-License-Identifier: Apache-2.0 OR MIT
pub mod Labels
pub mod Room
pub mod Seen
pub mod Under
