-- Each call that draws a scene is read back from its line.
use Rattle.std.proofs.Common.{◌≡◌, ℕ, ℤ, pos, ◌+◌, ◌≤◌, Bool, true, false, not, ◌&&◌, nat_le, List, [], ◌∷◌, length, drop, refl, sym, subst, ap, ◌∙◌, arith, Option, None, Some, All}
use Rattle.std.proofs.lemmas.Bool.{and_left, and_parts, le-leb, not-true}
use Rattle.std.proofs.lemmas.List.Elements.{All-cons, All-nil}
use Rattle.std.specs.Prelude.{codes, if◌then◌else◌, Result, Ok}
use Rattle.std.specs.List.{list_all}
use Rattle.std.specs.Str.{bytes_eq}
use Rattle.egl_calls.specs.Calls.{CallValue}
use Rattle.egl_calls.specs.Ranges.{IsNumber}
use Rattle.egl_calls.specs.declared.kinds.Kind.{Kind}
use Rattle.egl_names.specs.declared.codes.TheConstants.{EGL_WIDTH, EGL_HEIGHT, GL_NEAREST, GL_REPLACE, GL_RGBA, GL_TEXTURE_2D, GL_TEXTURE_CROP_RECT_OES, GL_TEXTURE_ENV, GL_TEXTURE_ENV_MODE, GL_UNSIGNED_BYTE}
use Rattle.trace_reader.proofs.KnownLaws.{body_named, line_called}
use Rattle.trace_reader.specs.Arguments.{are_known, padded, references}
use Rattle.trace_reader.specs.Body.{body_of, call_word, is_assignment, named_line, thread_of}
use Rattle.trace_reader.specs.CallNames.{call_named, calls, signature}
use Rattle.trace_reader.specs.Lists.{attributes}
use Rattle.trace_reader.specs.Numerals.{numeral}
use Rattle.trace_reader.specs.Payloads.{most_line_payload, payload_bytes}
use Rattle.trace_reader.specs.Reasons.{provided}
use Rattle.trace_reader.specs.Words.{begins_with, is_word, word_at}
use Rattle.call_table.specs.declared.forms.Form.{Form}
use Rattle.trace_reader.specs.declared.traces.Line.{Line}
use Rattle.trace_reader.specs.declared.traces.Reason.{Reason}
use Rattle.trace_reader.specs.declared.traces.Reason.TheVariants.{Limit, Variable}
use Rattle.trace_reader.specs.declared.traces.Reference.{Reference}
use Rattle.journal_text.proofs.WordLaws.{from_all}
use Rattle.journal_text.specs.Written.{IsByte}
use Rattle.scene_reader.specs.declared.items.ScaledPart.{ScaledPart}
use Rattle.sprite_scene.specs.Calls.{bind_texture, create_context, create_pbuffer, crop, draw_tex, enable, get_display, initialize, make_current, read_all, replace, scissor, set_nearest, tex_image}
use Rattle.scene_trace.specs.Lines.{argument_words, line_of}
use Rattle.call_table.specs.Names.{call_name}
use Rattle.scene_trace.specs.Rows.{call_forms}
use Rattle.scene_trace.proofs.ArgumentsRead.{Argues, attribute_words, call_said, config, list, nothing, number, payload_is, variable}
use Rattle.scene_trace.proofs.NumbersRead.{code, small}
use Rattle.scene_trace.proofs.Spaced.{AreWords, call_words}

-- a call is read back from its words, behind the thread's
pub record Reads (c : CallValue) : Type 0 where
  pub words : AreWords (call_words c)
  pub call : begins_with 36 (call_name c.kind) ≡ false
  pub line : (n : ℕ) → body_of 1 [] 0 n (codes "0" ∷ call_words c) ≡ Ok (line_of n c)

thread_said : thread_of 1 (codes "0") ≡ Ok 0
unfolding thread_of numeral
thread_said = refl

-- what is left of a line once its call is known
finished : (n : ℕ) (c : CallValue) (known few : Bool) (uses : List Reference) → known ≡ true → few ≡ true → uses ≡ [] →
    provided true Variable (provided known Variable (provided few Limit (let l : Result Line Reason = Ok (record { number = n; thread = 0; assigns = None; call = c; uses = uses }) in l))) ≡ Ok (line_of n c)
finished n c known few uses a b e =
    ap (λ (k : Bool). provided k Variable (provided few Limit (let l : Result Line Reason = Ok (record { number = n; thread = 0; assigns = None; call = c; uses = uses }) in l))) a
    ∙ ap (λ (k : Bool). provided k Limit (let l : Result Line Reason = Ok (record { number = n; thread = 0; assigns = None; call = c; uses = uses }) in l)) b
    ∙ ap (λ (us : List Reference). let l : Result Line Reason = Ok (record { number = n; thread = 0; assigns = None; call = c; uses = us }) in l) e

body_said : (n : ℕ) (name : List ℕ) (kind : Kind) (fs : List Form) (ws : List (List ℕ)) (zs l : List ℤ) (bytes : Option (List ℕ)) → Argues fs ws zs l bytes → begins_with 36 name ≡ false → call_named name ≡ Some (signature kind fs) →
    payload_bytes (record { kind = kind; args = padded zs; list = l; bytes = bytes }) ≤ most_line_payload → body_of 1 [] 0 n (codes "0" ∷ name ∷ ws) ≡ Ok (line_of n (record { kind = kind; args = padded zs; list = l; bytes = bytes }))
body_said n name kind fs words zs l bytes a plain named few =
    let ws = codes "0" ∷ name ∷ words in
    let c : CallValue = record { kind = kind; args = padded zs; list = l; bytes = bytes } in
    let s = signature kind fs in
    let none : is_assignment ws ≡ false = and_left (begins_with 36 name) (bytes_eq (word_at ws 2) (codes "=")) plain in
    let called : Some s ≡ call_named (call_word ws) = sym named ∙ sym (ap (λ (b : Bool). call_named (word_at ws (if b then 3 else 1))) none) in
    body_named 1 [] 0 n 0 ws s thread_said called
    ∙ ap (λ (b : Bool). named_line [] 0 n 0 s (if b then Some (word_at ws 1) else None) (drop ((if b then 3 else 1) + 1) ws)) none
    ∙ line_called [] 0 n 0 kind fs None words c (call_said kind fs words zs l bytes a.argued)
    ∙ finished n c (are_known [] fs words) (nat_le (payload_bytes c) most_line_payload) (references [] 0 fs words) a.known (le-leb (payload_bytes c) most_line_payload few) (a.free 0)

-- a word that can name a call: without spaces, and no variable
abbrev can_name : List ℕ → Bool
can_name w = is_word w && list_all (nat_le 33) w && not (begins_with 36 w)

-- a call whose words say its arguments
reads : (c : CallValue) {fs : List Form} {ws : List (List ℕ)} {zs l : List ℤ} {bytes : Option (List ℕ)} → Argues fs ws zs l bytes → can_name (call_name c.kind) ≡ true → call_named (call_name c.kind) ≡ Some (signature c.kind fs) → payload_bytes c ≤ most_line_payload →
    argument_words 0 (call_forms c.kind) c ≡ ws → record { kind = c.kind; args = padded zs; list = l; bytes = bytes } ≡ c → Reads c
reads c {fs} {ws} {zs} {l} {bytes} a can named few words call =
    let name = call_name c.kind in
    let p = and_parts (is_word name && list_all (nat_le 33) name) (not (begins_with 36 name)) can in
    let q = and_parts (is_word name) (list_all (nat_le 33) name) p.0 in
    let plain = not-true (begins_with 36 name) p.1 in
    let w : AreWords (name ∷ ws) = (q.0, from_all 33 name q.1, a.words) in
    record {
      words = subst (λ (vs : List (List ℕ)). AreWords (name ∷ vs)) (sym words) w;
      call = plain;
      line = λ k.
          ap (λ (vs : List (List ℕ)). body_of 1 [] 0 k (codes "0" ∷ name ∷ vs)) words
          ∙ body_said k name c.kind fs ws zs l bytes a plain named (subst (λ (d : CallValue). payload_bytes d ≤ most_line_payload) (sym call) few)
          ∙ ap (λ (d : CallValue). let r : Result Line Reason = Ok (line_of k d) in r) call;
    }

zero_said : IsNumber (pos 0)
zero_said = code 0 refl

one_said : IsNumber (pos 1)
one_said = code 1 refl

four : (a b c d : ℤ) → IsNumber a → IsNumber b → IsNumber c → IsNumber d → All IsNumber (a ∷ b ∷ c ∷ d ∷ [])
four a b c d p q r s = All-cons IsNumber a (b ∷ c ∷ d ∷ []) p (All-cons IsNumber b (c ∷ d ∷ []) q (All-cons IsNumber c (d ∷ []) r (All-cons IsNumber d [] s (All-nil IsNumber))))

-- ---- The calls before all items.
pub get_display_reads : Reads get_display
unfolding padded call_named calls call_name call_forms
get_display_reads =
    reads get_display
    (number (pos 0) zero_said nothing)
    refl refl (omega arith) refl refl

pub initialize_reads : Reads initialize
unfolding padded call_named calls call_name call_forms
initialize_reads =
    reads initialize
    (variable (pos 1) one_said nothing)
    refl refl (omega arith) refl refl

pub create_pbuffer_reads : (w h : ℕ) → w ≤ 2048 → h ≤ 2048 → Reads (create_pbuffer w h)
unfolding padded call_named calls call_name call_forms attributes
create_pbuffer_reads w h k l =
    let sides = pos EGL_WIDTH ∷ pos w ∷ pos EGL_HEIGHT ∷ pos h ∷ [] in
    let all = four (pos EGL_WIDTH) (pos w) (pos EGL_HEIGHT) (pos h) (code EGL_WIDTH refl) (small w (omega (arith, k))) (code EGL_HEIGHT refl) (small h (omega (arith, l))) in
    reads (create_pbuffer w h)
    (variable (pos 1) one_said (config (pos 4) (code 4 refl) (attribute_words sides all refl)))
    refl refl (omega arith) refl refl

pub create_context_reads : Reads create_context
unfolding padded call_named calls call_name call_forms attributes
create_context_reads =
    reads create_context
    (variable (pos 1) one_said (config (pos 4) (code 4 refl) (variable (pos 0) zero_said (attribute_words [] (All-nil IsNumber) refl))))
    refl refl (omega arith) refl refl

pub make_current_reads : Reads make_current
unfolding padded call_named calls call_name call_forms
make_current_reads =
    reads make_current
    (variable (pos 1) one_said (variable (pos 3) (code 3 refl) (variable (pos 3) (code 3 refl) (variable (pos 4) (code 4 refl) nothing))))
    refl refl (omega arith) refl refl

pub replace_reads : Reads replace
unfolding padded call_named calls call_name call_forms
replace_reads =
    reads replace
    (number (pos GL_TEXTURE_ENV) (code GL_TEXTURE_ENV refl) (number (pos GL_TEXTURE_ENV_MODE) (code GL_TEXTURE_ENV_MODE refl) (number (pos GL_REPLACE) (code GL_REPLACE refl) nothing)))
    refl refl (omega arith) refl refl

pub enable_reads : (cap : ℕ) → cap ≤ 4294967295 → Reads (enable cap)
unfolding padded call_named calls call_name call_forms
enable_reads cap l =
    reads (enable cap)
    (number (pos cap) (small cap l) nothing)
    refl refl (omega arith) refl refl

pub scissor_reads : (x y : ℤ) (w h : ℕ) → IsNumber x → IsNumber y → w ≤ 65535 → h ≤ 65535 → Reads (scissor x y w h)
unfolding padded call_named calls call_name call_forms
scissor_reads x y w h p q k l =
    reads (scissor x y w h)
    (number x p (number y q (number (pos w) (small w (omega (arith, k))) (number (pos h) (small h (omega (arith, l))) nothing))))
    refl refl (omega arith) refl refl

-- ---- Textures.
pub bind_reads : (name : ℕ) → name ≤ 65535 → Reads (bind_texture name)
unfolding padded call_named calls call_name call_forms
bind_reads name l =
    reads (bind_texture name)
    (number (pos GL_TEXTURE_2D) (code GL_TEXTURE_2D refl) (variable (pos name) (small name (omega (arith, l))) nothing))
    refl refl (omega arith) refl refl

pub nearest_reads : (pname : ℕ) → pname ≤ 4294967295 → Reads (set_nearest pname)
unfolding padded call_named calls call_name call_forms
nearest_reads pname l =
    reads (set_nearest pname)
    (number (pos GL_TEXTURE_2D) (code GL_TEXTURE_2D refl) (number (pos pname) (small pname l) (number (pos GL_NEAREST) (code GL_NEAREST refl) nothing)))
    refl refl (omega arith) refl refl

pub image_reads : (w h : ℕ) (texels : List ℕ) → w ≤ 65535 → h ≤ 65535 → All IsByte texels → length texels ≤ 8388608 → Reads (tex_image w h texels)
unfolding padded call_named calls call_name call_forms
image_reads w h texels k l bytes few =
    reads (tex_image w h texels)
    (number (pos GL_TEXTURE_2D) (code GL_TEXTURE_2D refl) (number (pos 0) zero_said (number (pos GL_RGBA) (code GL_RGBA refl) (number (pos w) (small w (omega (arith, k))) (number (pos h) (small h (omega (arith, l))) (number (pos 0) zero_said (number (pos GL_RGBA) (code GL_RGBA refl) (number (pos GL_UNSIGNED_BYTE) (code GL_UNSIGNED_BYTE refl) (payload_is texels bytes)))))))))
    refl refl few refl refl

-- ---- Draws.
pub crop_reads : (u v w h : ℕ) → u ≤ 65535 → v ≤ 65535 → w ≤ 65535 → h ≤ 65535 → Reads (crop u v w h)
unfolding padded call_named calls call_name call_forms
crop_reads u v w h i j k l =
    let rect = pos u ∷ pos v ∷ pos w ∷ pos h ∷ [] in
    let all = four (pos u) (pos v) (pos w) (pos h) (small u (omega (arith, i))) (small v (omega (arith, j))) (small w (omega (arith, k))) (small h (omega (arith, l))) in
    reads (crop u v w h)
    (number (pos GL_TEXTURE_2D) (code GL_TEXTURE_2D refl) (number (pos GL_TEXTURE_CROP_RECT_OES) (code GL_TEXTURE_CROP_RECT_OES refl) (list rect all)))
    refl refl (omega arith) refl refl

pub draw_reads : (s : ScaledPart) → IsNumber s.x → IsNumber s.y → s.width ≤ 65535 → s.height ≤ 65535 → Reads (draw_tex s)
unfolding padded call_named calls call_name call_forms
draw_reads s p q k l =
    reads (draw_tex s)
    (number s.x p (number s.y q (number (pos 0) zero_said (number (pos s.width) (small s.width (omega (arith, k))) (number (pos s.height) (small s.height (omega (arith, l))) nothing)))))
    refl refl (omega arith) refl refl

pub read_reads : (w h : ℕ) → w ≤ 2048 → h ≤ 2048 → Reads (read_all w h)
unfolding padded call_named calls call_name call_forms
read_reads w h k l =
    reads (read_all w h)
    (number (pos 0) zero_said (number (pos 0) zero_said (number (pos w) (small w (omega (arith, k))) (number (pos h) (small h (omega (arith, l))) (number (pos GL_RGBA) (code GL_RGBA refl) (number (pos GL_UNSIGNED_BYTE) (code GL_UNSIGNED_BYTE refl) nothing))))))
    refl refl (omega arith) refl refl
