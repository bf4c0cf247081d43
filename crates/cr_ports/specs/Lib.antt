-- SPDX-License-Identifier: Apache-2.0 OR MIT
pub mod Count
pub mod Calls
pub mod Stopping
pub mod Stream
pub mod Clocks
pub mod Script
pub mod Memory
pub mod Keeping
pub mod Adapter
pub mod Shelving
pub mod Either
pub mod Writing
pub mod Doors
pub mod Opening
pub mod MemoryDoors
