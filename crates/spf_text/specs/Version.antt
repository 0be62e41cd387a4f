-- What makes a text an SPF text.
use Rattle.std.specs.Prelude.{ℕ, Bool, true, ◌&&◌, ◌==◌, List, [], ◌∷◌, take, drop, codes}
use Rattle.std.specs.Str.{bytes_eq, str_to_ascii_lowercase}

-- RFC 7208, section 4.5: the version section ends before a space or with the text
abbrev pub ends_version : List ℕ → Bool
ends_version [] = true
ends_version (byte ∷ bytes) = byte == 32

-- RFC 7208, section 4.5: `v=spf1`, and then a space or the end; that its letters may be of either case is the project's
-- own choice
unfoldable pub is_spf_text : List ℕ → Bool
is_spf_text text = bytes_eq (str_to_ascii_lowercase (take 6 text)) (codes "v=spf1") && ends_version (drop 6 text)
