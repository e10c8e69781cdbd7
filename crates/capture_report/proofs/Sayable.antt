-- What is said has room in a message.
use Rattle.std.proofs.Common.{◌≡◌, ◌≤◌, ◌<◌, ℕ, ◌+◌, ◌^◌, ◌==◌, ◌||◌, Bool, true, false, if◌then◌else◌, List, [], ◌∷◌, ◌++◌, length, take, map, min, refl, arith}
use Rattle.std.proofs.lemmas.List.{length-append, length-map, length-take}
use Rattle.std.specs.Fmt.{decimal}
use Rattle.std.specs.Prelude.{codes}
use Rattle.cap_base.specs.Lawful.{IsLawfulName}
use Rattle.cap_base.specs.declared.counts.Counts.{Counts}
use Rattle.cap_base.specs.declared.endings.How.{How}
use Rattle.cap_base.specs.declared.endings.How.TheVariants as hows
use Rattle.cap_base.specs.declared.endings.Code.{Code}
use Rattle.cap_base.specs.declared.endings.Code.TheVariants as code
use Rattle.cap_base.specs.declared.interface.Iface.{Iface}
use Rattle.sync_pipe.specs.Texts.{IsSayable, body_text, ended, framed, has_zero}
use Rattle.sync_pipe.specs.declared.said.Said.TheVariants as message
use Rattle.sync_pipe.specs.Format.{most_drops}
use Rattle.std.specs.Str.{IsUtf8, is_utf8}
use Rattle.std.proofs.lemmas.Str.{is_utf8-from_IsUtf8}
use Rattle.capture_report.specs.Words.{code_words, ending_words}
use Rattle.capture_report.specs.Messages.{failure_message, shown_byte, shown_name, drops_said}
use Rattle.capture_report.specs.Sayable.{HasRoom}
use Rattle.capture_report.proofs.Zeros.{none_in_both, none_in_decimal, decimal_is_short}

pub name_is_utf8 : (name : List ℕ) → IsUtf8 name → is_utf8 name ≡ true
name_is_utf8 name is = is_utf8-from_IsUtf8 name is

pub count_is_sayable : (n : ℕ) → n < 2 ^ 8 → IsSayable (message.Count n)
unfolding body_text ended
count_is_sayable n h = let few = decimal_is_short n (omega arith) in record { small = rw length-append (omega arith); parts = omega arith }

pub file_is_sayable : (name : List ℕ) → HasRoom name → is_utf8 name ≡ true → IsSayable (message.File name)
unfolding body_text ended
file_is_sayable name is utf8 = let few = is.few in record { small = rw length-append (omega arith); parts = (is.some, utf8, is.without_zero) }

-- two texts that together have room
error_has_room : (primary secondary : List ℕ) → length primary + length secondary ≤ 60000 → has_zero primary ≡ false → has_zero secondary ≡ false → IsSayable (message.Error primary secondary)
unfolding body_text ended framed
error_has_room primary secondary few e f = record { small = rw (length-append, length-append, length-append) (omega arith); parts = (e, f) }

pub failure_is_sayable : (name : List ℕ) → HasRoom name → IsSayable (failure_message name)
failure_is_sayable name is = let few = is.few in error_has_room (codes "output failed") name (omega arith) refl is.without_zero

-- a byte that is shown is not zero
shown_has_none : (bytes : List ℕ) → has_zero (map shown_byte bytes) ≡ false
shown_has_none [] = refl
shown_has_none (b ∷ bytes) = by (b == 0) refl (shown_has_none bytes)
  where
    by : (t : Bool) → (b == 0) ≡ t → has_zero (map shown_byte bytes) ≡ false → (((if t then 63 else b) == 0) || has_zero (map shown_byte bytes)) ≡ false
    by true e f = f
    by false e f = rw e f

drops_have_room : (n : ℕ) (name : List ℕ) → n ≤ most_drops → IsSayable (message.Drops n (shown_name name))
unfolding body_text ended shown_name
drops_have_room n name h =
    let few = decimal_is_short n (omega arith) in
    let most : length (take 65000 name) ≤ 65000 = rw length-take (omega arith) in
    record {
      small = rw (length-append, length-append, length-map) (omega arith);
      parts = (h, shown_has_none (take 65000 name));
    }

pub drops_are_sayable : (i : Iface) (c : Counts) → IsSayable (drops_said i c)
drops_are_sayable i c = drops_have_room (min (c.drop + c.flush) most_drops) i.name (omega arith)

-- the words of an ending
code_has_room : (c : Code) → (length (code_words c) ≤ 20) × (has_zero (code_words c) ≡ false)
code_has_room code.Magic = (omega arith, refl)
code_has_room code.Version = (omega arith, refl)
code_has_room code.Order = (omega arith, refl)
code_has_room code.Length = (omega arith, refl)
code_has_room code.Trailer = (omega arith, refl)
code_has_room code.Body = (omega arith, refl)
code_has_room code.Note = (omega arith, refl)
code_has_room code.Interface = (omega arith, refl)
code_has_room code.Captured = (omega arith, refl)

-- the places in an ending are numbers of 64 bits
abbrev pub Fits64 : How → Type 0
Fits64 (hows.Cut at) = at < 2 ^ 64
Fits64 (hows.Bad c at) = at < 2 ^ 64
Fits64 other = Unit {0}

pub words_have_room : (how : How) → Fits64 how → HasRoom (ending_words how)
unfolding ending_words
words_have_room hows.Clean h = record { some = omega arith; few = omega arith; without_zero = refl }
words_have_room hows.Stopped h = record { some = omega arith; few = omega arith; without_zero = refl }
words_have_room (hows.Cut at) h = let few = decimal_is_short at h in record { some = omega arith; few = omega arith; without_zero = none_in_decimal at h }
words_have_room (hows.Bad c at) h =
    let few = decimal_is_short at h in
    let short = code_has_room c in
    let less = short.0 in
    record { some = omega arith; few = rw (length-append (code_words c)) (omega arith); without_zero = none_in_both (code_words c) (codes " at " ++ decimal at) short.1 (none_in_decimal at h) }
words_have_room hows.ReadFault h = record { some = omega arith; few = omega arith; without_zero = refl }
words_have_room hows.OpenFault h = record { some = omega arith; few = omega arith; without_zero = refl }
words_have_room hows.TooMany h = record { some = omega arith; few = omega arith; without_zero = refl }
words_have_room hows.TooLong h = record { some = omega arith; few = omega arith; without_zero = refl }
words_have_room hows.NoMemory h = record { some = omega arith; few = omega arith; without_zero = refl }
words_have_room hows.Worn h = record { some = omega arith; few = omega arith; without_zero = refl }

pub early_is_sayable : (name words : List ℕ) → IsLawfulName name → HasRoom words → IsSayable (message.Error (codes "source ended early") (name ++ (codes ": " ++ words)))
early_is_sayable name words is short =
    let few = is.few in
    let less = short.few in
    let q : length (name ++ (codes ": " ++ words)) ≡ length name + (2 + length words) = rw (length-append name) (omega arith) in
    error_has_room (codes "source ended early") (name ++ (codes ": " ++ words)) (omega arith) refl (none_in_both name (codes ": " ++ words) is.without_zero short.without_zero)
