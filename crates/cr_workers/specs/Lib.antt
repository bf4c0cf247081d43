-- SPDX-License-Identifier: Apache-2.0 OR MIT
pub mod Connections
pub mod Doors
pub mod OneHistory
