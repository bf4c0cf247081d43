-- SPDX-License-Identifier: Apache-2.0 OR MIT
-- The methods of HTTP that the server answers, by their names (RFC 9110, section 9.3).
use Rattle.std.specs.Prelude.{ℕ, List, [], ◌∷◌, Option, Some, None, codes, if◌then◌else◌}
use Rattle.std.specs.Str.{bytes_eq}
use Rattle.cr_routes.specs.declared.method.Method.{Method}
use Rattle.cr_routes.specs.declared.method.Method.TheVariants.{Get, Head, Post, Put, Delete}

-- a method's name
abbrev pub method_name : Method → List ℕ
method_name Get = codes "GET"
method_name Head = codes "HEAD"
method_name Post = codes "POST"
method_name Put = codes "PUT"
method_name Delete = codes "DELETE"

-- the methods, in alphabetical order
abbrev pub methods : List Method
methods = Delete ∷ Get ∷ Head ∷ Post ∷ Put ∷ []

-- the method of these with this name
abbrev pub method_named : List ℕ → List Method → Option Method
method_named name [] = None
method_named name (m ∷ ms) = if bytes_eq name (method_name m) then Some m else method_named name ms

-- the method of a name
abbrev pub method_of : List ℕ → Option Method
method_of name = method_named name methods
