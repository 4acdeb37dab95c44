-- The lines before the items, in the words of the grammar.
use Rattle.std.proofs.Common.{ℕ, ◌≡◌, Bool, true, false, cond, List, drop, codes, Ok, Err, Some, None, Option, refl}
use Rattle.std.specs.Str.{bytes_eq}
use Rattle.std.proofs.lemmas.Slice.Eq.{bytes_eq-Decides}
use Rattle.lm63_read.specs.declared.head.Header.{Header}
use Rattle.lm63_read.specs.declared.head.Header.TheVariants.{Of1991, Of1995, Of2002}
use Rattle.lm63_read.specs.declared.fault.IesFault.TheVariants as fault
use Rattle.lm63_read.specs.Items.{items_of}
use Rattle.lm63_read.specs.Files.{IesFile}
use Rattle.lm63_read.specs.Head.{file_of, first_line, found, header_of, next_lines, tilt_from, tilted, trimmed}
use Rattle.lm63_read.specs.Grammar.{FileIsFit, FitsFile, IsTilt, Names}
use Rattle.decimal_text.proofs.Steps.{both_gave}
use Rattle.lm63_read.proofs.Fits.{fits_of, of_fits}

-- a test of two texts that was passed
same : (text other : List ℕ) → bytes_eq text other ≡ true → text ≡ other
same text other h = (bytes_eq-Decides text other).0 h

names_of : (text : List ℕ) (h : Header) → header_of text ≡ Ok h → Names text h
unfolding header_of
names_of text h e = at (bytes_eq text (codes "IESNA:LM-63-2002")) refl (bytes_eq text (codes "IESNA:LM-63-1995")) refl (bytes_eq text (codes "IESNA91")) refl h e
  where
    at : (a : Bool) → bytes_eq text (codes "IESNA:LM-63-2002") ≡ a → (b : Bool) → bytes_eq text (codes "IESNA:LM-63-1995") ≡ b
        → (c : Bool) → bytes_eq text (codes "IESNA91") ≡ c → (g : Header) → cond a (Ok Of2002) (cond b (Ok Of1995) (cond c (Ok Of1991) (Err fault.Version))) ≡ Ok g → Names text g
    at true p b q c r Of2002 e = same text (codes "IESNA:LM-63-2002") p
    at true p b q c r Of1995 e = absurd (cc)
    at true p b q c r Of1991 e = absurd (cc)
    at false p true q c r Of1995 e = same text (codes "IESNA:LM-63-1995") q
    at false p true q c r Of2002 e = absurd (cc)
    at false p true q c r Of1991 e = absurd (cc)
    at false p false q true r Of1991 e = same text (codes "IESNA91") r
    at false p false q true r Of2002 e = absurd (cc)
    at false p false q true r Of1995 e = absurd (cc)
    at false p false q false r g e = absurd (cc)

of_names : (text : List ℕ) (h : Header) → Names text h → header_of text ≡ Ok h
unfolding header_of
of_names text Of2002 e = rw e refl
of_names text Of1995 e = rw e refl
of_names text Of1991 e = rw e refl

tilt_of : (text : List ℕ) (b : Bool) → tilted text ≡ Ok b → IsTilt text b
unfolding tilted
tilt_of text b e = at (bytes_eq text (codes "NONE")) refl (bytes_eq text (codes "INCLUDE")) refl b e
  where
    at : (a : Bool) → bytes_eq text (codes "NONE") ≡ a → (c : Bool) → bytes_eq text (codes "INCLUDE") ≡ c
        → (d : Bool) → cond a (Ok false) (cond c (Ok true) (Err fault.TiltFile)) ≡ Ok d → IsTilt text d
    at true p c q false e = same text (codes "NONE") p
    at true p c q true e = absurd (cc)
    at false p true q true e = same text (codes "INCLUDE") q
    at false p true q false e = absurd (cc)
    at false p false q d e = absurd (cc)

of_tilt : (text : List ℕ) (b : Bool) → IsTilt text b → tilted text ≡ Ok b
unfolding tilted
of_tilt text true e = rw e refl
of_tilt text false e = rw e refl

lines_of : (o : Option (List ℕ)) (lines : List ℕ) → found o ≡ Ok lines → o ≡ Some lines
lines_of (Some x) lines e = cc
lines_of None lines e = absurd (cc)

file_fits : (bytes : List ℕ) (f : IesFile) → file_of bytes ≡ Ok f → FitsFile bytes f
unfolding file_of
file_fits bytes f h =
    let a = both_gave (header_of (trimmed (first_line bytes))) _ f h in
    let b = both_gave (found (tilt_from true (next_lines bytes))) _ f a.2 in
    let c = both_gave (tilted (drop 5 (trimmed (first_line b.0)))) _ f b.2 in
    record {
      header = a.0;
      lines = b.0;
      included = c.0;
      names = names_of (trimmed (first_line bytes)) a.0 a.1;
      from_tilt = lines_of (tilt_from true (next_lines bytes)) b.0 b.1;
      tilt = tilt_of (drop 5 (trimmed (first_line b.0))) c.0 c.1;
      fits = fits_of a.0 (items_of (next_lines b.0)) c.0 f c.2;
    }

fits_file : (bytes : List ℕ) (f : IesFile) → FitsFile bytes f → file_of bytes ≡ Ok f
unfolding file_of
fits_file bytes f h =
    rw (of_names (trimmed (first_line bytes)) h.header h.names, h.from_tilt, of_tilt (drop 5 (trimmed (first_line h.lines))) h.included h.tilt)
    (of_fits h.header (items_of (next_lines h.lines)) h.included f h.fits)

pub file_is_fit : FileIsFit
file_is_fit bytes f = (file_fits bytes f, fits_file bytes f)
