-- SPDX-License-Identifier: Apache-2.0 OR MIT
pub mod Dice
pub mod Cast
pub mod Drill
pub mod Drilling
