-- The lines of the configs.
use Rattle.std.proofs.Common.{◌≡◌, ℕ, ℤ, pos, List, [], ◌∷◌, ◌++◌, map, refl, sym, ap, append_assoc}
use Rattle.std.proofs.lemmas.List.{append-nil}
use Rattle.std.specs.Prelude.{codes}
use Rattle.std.specs.Fmt.{digits}
use Rattle.std.specs.List.{flat_map, join_with_byte}
use Rattle.egl_names.specs.declared.codes.TheConstants.{EGL_CONFIG_ID, EGL_RED_SIZE, EGL_GREEN_SIZE, EGL_BLUE_SIZE, EGL_ALPHA_SIZE, EGL_DEPTH_SIZE, EGL_STENCIL_SIZE, EGL_SURFACE_TYPE, EGL_CONFIG_CAVEAT}
use Rattle.config_match.specs.Table.{attribute, attribute_of}
use Rattle.egl_names.specs.Names.{name_of, names, errors, config_attributes, other_egl_names, gl_names}
use Rattle.trace_model.specs.Recording.{number_text}
use Rattle.egl_cli.specs.ConfigLines.{attribute_text, line_with_id, configs_text, printed_configs}

joined : (text : ℤ → List ℕ) (z : ℤ) (zs : List ℤ) → join_with_byte 32 (map text (z ∷ zs)) ≡ text z ++ flat_map (λ x. codes " " ++ text x) zs
joined text z [] = sym (append-nil (text z))
joined text z (y ∷ ys) = ap (λ (r : List ℕ). text z ++ (32 ∷ r)) (joined text y ys)

-- three pieces, one behind another
in_pieces : (out line first more last : List ℕ) → line ≡ (first ++ more) ++ last → out ++ line ≡ ((out ++ first) ++ more) ++ last
in_pieces out line first more last e = simp append_assoc (ap (λ (r : List ℕ). out ++ r) (simp append_assoc at e))

-- what a line shows behind the id
abbrev pub behind_id : List ℤ
behind_id = pos EGL_RED_SIZE ∷ pos EGL_GREEN_SIZE ∷ pos EGL_BLUE_SIZE ∷ pos EGL_ALPHA_SIZE ∷ pos EGL_DEPTH_SIZE ∷ pos EGL_STENCIL_SIZE ∷ pos EGL_SURFACE_TYPE ∷ pos EGL_CONFIG_CAVEAT ∷ []

line_is : (id : ℤ) → line_with_id id ≡ (attribute_text id (pos EGL_CONFIG_ID) ++ flat_map (λ name. codes " " ++ attribute_text id name) behind_id) ++ codes "\n"
unfolding line_with_id
line_is id = ap (λ (r : List ℕ). r ++ codes "\n") (joined (attribute_text id) (pos EGL_CONFIG_ID) behind_id)

-- a line as it is written
pub line_put : (out : List ℕ) (id : ℤ) → out ++ line_with_id id ≡ ((out ++ attribute_text id (pos EGL_CONFIG_ID)) ++ flat_map (λ name. codes " " ++ attribute_text id name) behind_id) ++ codes "\n"
line_put out id = in_pieces out (line_with_id id) (attribute_text id (pos EGL_CONFIG_ID)) (flat_map (λ name. codes " " ++ attribute_text id name) behind_id) (codes "\n") (line_is id)

-- the lines by their ids are those of the configs
pub all_lines : flat_map line_with_id (pos 1 ∷ pos 2 ∷ pos 3 ∷ pos 4 ∷ pos 5 ∷ pos 6 ∷ pos 7 ∷ pos 8 ∷ []) ≡ configs_text
unfolding configs_text line_with_id attribute attribute_of
all_lines = refl

pub text_is : configs_text ≡ printed_configs
unfolding configs_text attribute_of number_text name_of names errors config_attributes other_egl_names gl_names digits
text_is = refl
