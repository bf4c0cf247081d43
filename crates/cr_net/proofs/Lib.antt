-- SPDX-License-Identifier: Apache-2.0 OR MIT
mod Counting
mod NewDoors
