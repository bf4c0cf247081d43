-- SPDX-License-Identifier: Apache-2.0 OR MIT
pub mod AskLaws
pub mod Utf8
pub mod Numbers
pub mod WishLaws
pub mod WhatLaws
