-- SPDX-License-Identifier: Apache-2.0 OR MIT
pub mod Readers
pub mod Stamps
pub mod SeatRows
pub mod FormRows
pub mod Lines
pub mod Series
pub mod Positions
pub mod Walks
