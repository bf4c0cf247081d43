-- SPDX-License-Identifier: Apache-2.0 OR MIT
mod Moments
mod Bytes
mod Frames
mod Calls
mod Whole
mod Numbers
mod RowLaws
mod Groups
mod Tails
mod Keeping
mod Gating
mod GateByGate
mod ReadLaws
mod OpenLaws
mod Stored
mod Shelving
