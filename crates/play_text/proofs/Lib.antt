mod StepsOfLines
