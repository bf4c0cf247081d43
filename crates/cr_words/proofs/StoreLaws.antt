-- SPDX-License-Identifier: Apache-2.0 OR MIT
-- The words of `pipe` with a store and of `view`, by clap's own definitions.
use Rattle.std.proofs.Common.{◌≡◌, [], ◌∷◌, ◌++◌, Some, None, true, false, cond, ◌&&◌, ◌==◌, ap, refl}
use Rattle.std.specs.Prelude.{codes}
use Rattle.std.specs.Str.{bytes_eq}
use Rattle.std.proofs.lemmas.Bool.{not-true}
use Rattle.clap.specs.Lexer.{strip_byte}
use Rattle.clap.specs.Words.{Text}
use Rattle.clap.proofs.OnLiterals.{clap_on_literals}
use Rattle.cr_words.specs.Words.{pipe, serve, view, drill, confd_words, is_plain_text, store_word, user_word}
use Rattle.cr_words.specs.Words.{store_words, user_words}
use Rattle.cr_words.specs.Job.{AreTakenFor, pipe_job, view_job}

-- ---- what clap tests of a word that may be an option

pub not_dashes : (word : Text) → is_plain_text word ≡ true → bytes_eq word (45 ∷ 45 ∷ []) ≡ false
not_dashes [] plain = refl
not_dashes (b ∷ rest) plain = ap (λ t. t && bytes_eq rest (45 ∷ [])) (not-true (b == 45) plain)

pub not_stripped : (word : Text) → is_plain_text word ≡ true → strip_byte 45 word ≡ None
not_stripped [] plain = refl
not_stripped (b ∷ rest) plain = ap (λ t. cond t (Some rest) None) (not-true (b == 45) plain)

-- ---- options as two words

pub pipe_store_taken : (name file : Text) → is_plain_text file ≡ true
    → AreTakenFor (name ∷ codes "pipe" ∷ store_words file) (pipe_job (Some file))
unfolding clap_on_literals confd_words pipe serve view drill
pipe_store_taken name file file_plain =
    let d = not_dashes file file_plain in
    let s = not_stripped file file_plain in
    record { taken = rw (d, s, s) refl; passes = rw (d, s, s) refl; named = rw (d, s, s) refl }

pub view_taken : (name file user : Text) → is_plain_text file ≡ true → is_plain_text user ≡ true
    → AreTakenFor (name ∷ codes "view" ∷ store_words file ++ user_words user) (view_job file user)
unfolding clap_on_literals confd_words pipe serve view drill
view_taken name file user file_plain user_plain =
    let d = not_dashes file file_plain in
    let s = not_stripped file file_plain in
    let e = not_dashes user user_plain in
    let t = not_stripped user user_plain in
    record {
      taken = rw (d, s, s, e, t, t) refl;
      passes = rw (d, s, s, e, t, t) refl;
      named = rw (d, s, s, e, t, t) refl;
    }

pub user_first_taken : (name file user : Text) → is_plain_text file ≡ true → is_plain_text user ≡ true
    → AreTakenFor (name ∷ codes "view" ∷ user_words user ++ store_words file) (view_job file user)
unfolding clap_on_literals confd_words pipe serve view drill
user_first_taken name file user file_plain user_plain =
    let d = not_dashes file file_plain in
    let s = not_stripped file file_plain in
    let e = not_dashes user user_plain in
    let t = not_stripped user user_plain in
    record {
      taken = rw (e, t, t, d, s, s) refl;
      passes = rw (e, t, t, d, s, s) refl;
      named = rw (e, t, t, d, s, s) refl;
    }

-- ---- options as one word

pub pipe_attached_taken : (name file : Text)
    → AreTakenFor (name ∷ codes "pipe" ∷ store_word file ∷ []) (pipe_job (Some file))
unfolding clap_on_literals confd_words pipe serve view drill
pipe_attached_taken name file = record { taken = refl; passes = refl; named = refl }

pub view_attached_taken : (name file user : Text)
    → AreTakenFor (name ∷ codes "view" ∷ store_word file ∷ user_word user ∷ []) (view_job file user)
unfolding clap_on_literals confd_words pipe serve view drill
view_attached_taken name file user = record { taken = refl; passes = refl; named = refl }
