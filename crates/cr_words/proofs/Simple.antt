-- SPDX-License-Identifier: Apache-2.0 OR MIT
-- The command is one of which clap says when it takes the words.
use Rattle.std.proofs.Common.{◌≡◌, List, [], ◌∷◌, true, refl, inl, inr, subst}
use Rattle.clap.specs.Words.{App, Text, is_simple_and_free, HasKind, Kinds, kind_of, fault_of, takes}
use Rattle.clap.specs.declared.Error.{Error}
use Rattle.clap.specs.declared.error.ErrorKind.TheVariants.{OutOfMemory}
use Rattle.clap.proofs.OnLiterals.{clap_on_literals}
use Rattle.cr_words.specs.Words.{pipe, serve, view, drill, confd_words}

pub simple : is_simple_and_free confd_words ≡ true
unfolding clap_on_literals confd_words pipe serve view drill
simple = refl

pub no_fault : (kinds : Kinds) (e : Error) → HasKind kinds e → (kind_of e ≡ OutOfMemory → ⊥) → kinds ≡ [] → ⊥
no_fault [] e (inl memory) other is = other memory
no_fault [] e (inr never) other is = never
no_fault (k ∷ ks) e h other is = cc

pub taken_from : (a : App) (ws : List Text) → a ≡ confd_words → (is_simple_and_free a ≡ true → fault_of a ws ≡ [])
    → fault_of confd_words ws ≡ []
taken_from a ws e h = subst (λ (b : App). is_simple_and_free b ≡ true → fault_of b ws ≡ []) e h simple

pub refused_from : (a : App) (ws : List Text) (x : Error) → a ≡ confd_words
    → (is_simple_and_free a ≡ true → HasKind (fault_of a ws) x)
    → (kind_of x ≡ OutOfMemory → ⊥) → fault_of confd_words ws ≡ [] → ⊥
refused_from a ws x e h other is =
    no_fault _ x (subst (λ (b : App). is_simple_and_free b ≡ true → HasKind (fault_of b ws) x) e h simple) other is

pub passes_from : (a : App) (ws : List Text) (x : Error) → a ≡ confd_words
    → (takes a ws ≡ true → kind_of x ≡ OutOfMemory)
    → (kind_of x ≡ OutOfMemory → ⊥) → takes confd_words ws ≡ true → ⊥
passes_from a ws x e h other t = other (subst (λ (b : App). takes b ws ≡ true → kind_of x ≡ OutOfMemory) e h t)
