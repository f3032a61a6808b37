-- Texts of types that compute: what they are read as, and their first offending bytes.
use Rattle.std.specs.Prelude.{◌≡◌, refl, List, [], ◌∷◌, Bool, true, false, ℕ}
use Rattle.type_text.specs.Spelling.{spelling}
use Rattle.type_text.specs.Grammar.{same_word, among, Children, no_more, written, named, Declaration, declaration}
use Rattle.type_text.specs.Reader.{Lexeme, lexeme_at, mark_at, bracket_at, bracket_end, word_bytes}
use Rattle.type_text.specs.Reader.{items_from, items_at, parsed, offends, read_braces, read_child, read_children}
use Rattle.type_text.specs.Reader.{read_declaration, read_declarations, read_text, basic_below, is_new_type}
use Rattle.type_text.specs.Meaning.{names_in, child_names, first_uses, id_of, type_named, forest_from, types_from, types_of}
use Rattle.type_text.specs.TypeRows.{level_of, levels_from, by_levels, row_bytes, rows_in, type_rows_from}
use Rattle.scalar.specs.Value.{word_of}
use Rattle.tree_forest.specs.Forest.{set, measure}
use Rattle.tree.specs.Encode.{root_count}

-- `type Lift : void { .load : double.clipped? : bool }`
abbrev pub lift_text : List ℕ
lift_text = 116 ∷ 121 ∷ 112 ∷ 101 ∷ 32 ∷ 76 ∷ 105 ∷ 102 ∷ 116 ∷ 32 ∷ 58 ∷ 32 ∷ 118 ∷ 111 ∷ 105 ∷ 100 ∷ 32 ∷ 123 ∷ 32 ∷ 46 ∷ 108 ∷ 111 ∷ 97 ∷ 100
    ∷ 32 ∷ 58 ∷ 32 ∷ 100 ∷ 111 ∷ 117 ∷ 98 ∷ 108 ∷ 101 ∷ 32 ∷ 46 ∷ 99 ∷ 108 ∷ 105 ∷ 112 ∷ 112 ∷ 101 ∷ 100 ∷ 63 ∷ 32 ∷ 58 ∷ 32 ∷ 98 ∷ 111 ∷ 111 ∷ 108
    ∷ 32 ∷ 125 ∷ []

abbrev pub lift_declaration : Declaration
lift_declaration = declaration (76 ∷ 105 ∷ 102 ∷ 116 ∷ []) 6 (written (108 ∷ 111 ∷ 97 ∷ 100 ∷ []) true 2 no_more (written (99 ∷ 108 ∷ 105 ∷ 112 ∷ 112
    ∷ 101 ∷ 100 ∷ []) false 0 no_more no_more))

pub lift-read : read_text lift_text ≡ parsed (lift_declaration ∷ []) []
unfolding read_text items_at items_from lexeme_at mark_at bracket_at bracket_end word_bytes read_braces read_child read_children read_declaration
    read_declarations basic_below is_new_type same_word among word_of
lift-read = refl

-- `typ %`
pub wrong_word : read_text (116 ∷ 121 ∷ 112 ∷ 32 ∷ 37 ∷ []) ≡ offends 0
unfolding read_text items_at items_from lexeme_at mark_at bracket_at bracket_end word_bytes read_braces read_child read_children read_declaration
    read_declarations basic_below is_new_type same_word among word_of
wrong_word = refl

-- `type a:int{.b[0, 1]:int}`
pub blank-in-mark : read_text (116 ∷ 121 ∷ 112 ∷ 101 ∷ 32 ∷ 97 ∷ 58 ∷ 105 ∷ 110 ∷ 116 ∷ 123 ∷ 46 ∷ 98 ∷ 91 ∷ 48 ∷ 44 ∷ 32 ∷ 49 ∷ 93 ∷ 58 ∷ 105 ∷ 110
    ∷ 116 ∷ 125 ∷ []) ≡ offends 16
unfolding read_text items_at items_from lexeme_at mark_at bracket_at bracket_end word_bytes read_braces read_child read_children read_declaration
    read_declarations basic_below is_new_type same_word among word_of
blank-in-mark = refl

-- `type a:int{.b[0,`
pub ends-in-mark : read_text (116 ∷ 121 ∷ 112 ∷ 101 ∷ 32 ∷ 97 ∷ 58 ∷ 105 ∷ 110 ∷ 116 ∷ 123 ∷ 46 ∷ 98 ∷ 91 ∷ 48 ∷ 44 ∷ []) ≡ offends 16
unfolding read_text items_at items_from lexeme_at mark_at bracket_at bracket_end word_bytes read_braces read_child read_children read_declaration
    read_declarations basic_below is_new_type same_word among word_of
ends-in-mark = refl

-- `type a:int{.b:a}`
pub own_name : read_text (116 ∷ 121 ∷ 112 ∷ 101 ∷ 32 ∷ 97 ∷ 58 ∷ 105 ∷ 110 ∷ 116 ∷ 123 ∷ 46 ∷ 98 ∷ 58 ∷ 97 ∷ 125 ∷ []) ≡ offends 14
unfolding read_text items_at items_from lexeme_at mark_at bracket_at bracket_end word_bytes read_braces read_child read_children read_declaration
    read_declarations basic_below is_new_type same_word among word_of
own_name = refl

-- `type a:int{}`
pub empty-list : read_text (116 ∷ 121 ∷ 112 ∷ 101 ∷ 32 ∷ 97 ∷ 58 ∷ 105 ∷ 110 ∷ 116 ∷ 123 ∷ 125 ∷ []) ≡ offends 11
unfolding read_text items_at items_from lexeme_at mark_at bracket_at bracket_end word_bytes read_braces read_child read_children read_declaration
    read_declarations basic_below is_new_type same_word among word_of
empty-list = refl

-- `type a:int{.b:int.b:int}`
pub duplicate-child : read_text (116 ∷ 121 ∷ 112 ∷ 101 ∷ 32 ∷ 97 ∷ 58 ∷ 105 ∷ 110 ∷ 116 ∷ 123 ∷ 46 ∷ 98 ∷ 58 ∷ 105 ∷ 110 ∷ 116 ∷ 46 ∷ 98 ∷ 58 ∷ 105
    ∷ 110 ∷ 116 ∷ 125 ∷ []) ≡ offends 18
unfolding read_text items_at items_from lexeme_at mark_at bracket_at bracket_end word_bytes read_braces read_child read_children read_declaration
    read_declarations basic_below is_new_type same_word among word_of
duplicate-child = refl

-- `type a[0,1]:int`
pub bracket-alone : read_text (116 ∷ 121 ∷ 112 ∷ 101 ∷ 32 ∷ 97 ∷ 91 ∷ 48 ∷ 44 ∷ 49 ∷ 93 ∷ 58 ∷ 105 ∷ 110 ∷ 116 ∷ []) ≡ offends 6
unfolding read_text items_at items_from lexeme_at mark_at bracket_at bracket_end word_bytes read_braces read_child read_children read_declaration
    read_declarations basic_below is_new_type same_word among word_of
bracket-alone = refl

pub lift-rows : type_rows_from 0 (types_of (lift_declaration ∷ [])) ≡ 0 ∷ 0 ∷ 1 ∷ 6 ∷ 1 ∷ 0 ∷ 2 ∷ 0 ∷ 1 ∷ 0 ∷ 1 ∷ 2 ∷ 0 ∷ 0 ∷ 0 ∷ 0 ∷ 2 ∷ 0 ∷ 0 ∷ 0 ∷ 0
    ∷ 0 ∷ 0 ∷ 0 ∷ []
unfolding names_in child_names first_uses id_of type_named forest_from types_from level_of levels_from by_levels row_bytes rows_in type_rows_from same_word among
    set root_count measure
lift-rows = refl

-- Of `type A : void { .a : int.b : bool } type B : void { .b : bool.a : int }`: ids by first use, children by rising id.
pub sorted-rows : type_rows_from 0
    (types_of
    (declaration (65 ∷ []) 6 (written (97 ∷ []) true 1 no_more (written (98 ∷ []) true 0 no_more no_more))
    ∷ declaration (66 ∷ []) 6 (written (98 ∷ []) true 0 no_more (written (97 ∷ []) true 1 no_more no_more)) ∷ []))
    ≡ 0 ∷ 0 ∷ 1 ∷ 6 ∷ 1 ∷ 0 ∷ 2 ∷ 0 ∷ 1 ∷ 0 ∷ 1 ∷ 1 ∷ 0 ∷ 0 ∷ 0 ∷ 0 ∷ 2 ∷ 0 ∷ 1 ∷ 0 ∷ 0 ∷ 0 ∷ 0 ∷ 0
    ∷ 0 ∷ 0 ∷ 1 ∷ 6 ∷ 4 ∷ 0 ∷ 2 ∷ 0 ∷ 1 ∷ 0 ∷ 1 ∷ 1 ∷ 0 ∷ 0 ∷ 0 ∷ 0 ∷ 2 ∷ 0 ∷ 1 ∷ 0 ∷ 0 ∷ 0 ∷ 0 ∷ 0 ∷ []
unfolding names_in child_names first_uses id_of type_named forest_from types_from level_of levels_from by_levels row_bytes rows_in type_rows_from same_word among set
    root_count measure
sorted-rows = refl
