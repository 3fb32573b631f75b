-- The numbers of the closed cases, m * 2^e: whole ones have their sign, and quarters are written as such.
-- Definitions only.
use mathlib.Core.Bool.{true, false}
use lib.IntN.{pos, negsuc}
use lib.Ieee.{Float, fin}

abbrev pub ¼ : Float
¼ = fin false 1 (negsuc 1)

abbrev pub -¼ : Float
-¼ = fin true 1 (negsuc 1)

abbrev pub ½ : Float
½ = fin false 1 (negsuc 0)

abbrev pub -½ : Float
-½ = fin true 1 (negsuc 0)

abbrev pub ¾ : Float
¾ = fin false 3 (negsuc 1)

abbrev pub -¾ : Float
-¾ = fin true 3 (negsuc 1)

abbrev pub +1 : Float
+1 = fin false 1 (pos 0)

abbrev pub -1 : Float
-1 = fin true 1 (pos 0)

abbrev pub 1¼ : Float
1¼ = fin false 5 (negsuc 1)

abbrev pub -1¼ : Float
-1¼ = fin true 5 (negsuc 1)

abbrev pub 1½ : Float
1½ = fin false 3 (negsuc 0)

abbrev pub -1½ : Float
-1½ = fin true 3 (negsuc 0)

abbrev pub 1¾ : Float
1¾ = fin false 7 (negsuc 1)

abbrev pub -1¾ : Float
-1¾ = fin true 7 (negsuc 1)

abbrev pub +2 : Float
+2 = fin false 1 (pos 1)

abbrev pub -2 : Float
-2 = fin true 1 (pos 1)

abbrev pub 2½ : Float
2½ = fin false 5 (negsuc 0)

abbrev pub -2½ : Float
-2½ = fin true 5 (negsuc 0)

abbrev pub 2¾ : Float
2¾ = fin false 11 (negsuc 1)

abbrev pub -2¾ : Float
-2¾ = fin true 11 (negsuc 1)

abbrev pub +3 : Float
+3 = fin false 3 (pos 0)

abbrev pub -3 : Float
-3 = fin true 3 (pos 0)

abbrev pub -3½ : Float
-3½ = fin true 7 (negsuc 0)

abbrev pub +4 : Float
+4 = fin false 1 (pos 2)

abbrev pub -4 : Float
-4 = fin true 1 (pos 2)

abbrev pub +5 : Float
+5 = fin false 5 (pos 0)

abbrev pub 5½ : Float
5½ = fin false 11 (negsuc 0)

abbrev pub +6 : Float
+6 = fin false 3 (pos 1)

abbrev pub +7 : Float
+7 = fin false 7 (pos 0)

abbrev pub +8 : Float
+8 = fin false 1 (pos 3)

abbrev pub -8 : Float
-8 = fin true 1 (pos 3)

abbrev pub +9 : Float
+9 = fin false 9 (pos 0)

abbrev pub +10 : Float
+10 = fin false 5 (pos 1)

abbrev pub +11 : Float
+11 = fin false 11 (pos 0)

abbrev pub +12 : Float
+12 = fin false 3 (pos 2)

abbrev pub -15 : Float
-15 = fin true 15 (pos 0)

abbrev pub +17 : Float
+17 = fin false 17 (pos 0)

abbrev pub +18 : Float
+18 = fin false 9 (pos 1)

abbrev pub +19 : Float
+19 = fin false 19 (pos 0)

abbrev pub +20 : Float
+20 = fin false 5 (pos 2)

abbrev pub -20 : Float
-20 = fin true 5 (pos 2)

abbrev pub -53 : Float
-53 = fin true 53 (pos 0)

abbrev pub -62 : Float
-62 = fin true 31 (pos 1)
